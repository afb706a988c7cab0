-- The player's state and code: the view of a state, what the calls promise, and laws of both.
pub mod View
pub mod Promise
pub mod Blank
pub mod FirstWindows
pub mod InShape
pub mod Tested
