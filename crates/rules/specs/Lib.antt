-- The rules of the player: the view that they speak of, the shape, a rule for each operation, and what the laws of the refusals share.
pub mod View
pub mod Shape
pub mod Window
pub mod Rules
pub mod Refusals
