-- What a window will still need: the figures, and that no way of cutting the entries into batches needs fewer.
pub mod Plan
pub mod Cutting
