-- A whole script is a run that demand 3 speaks of.
pub mod Room
pub mod Tickless
pub mod Shown
pub mod Delivered
