-- A script's stage as a world of `delivery`, and its steps as steps of that world.
pub mod Line
pub mod Stage
pub mod Promise
pub mod Stored
pub mod Opening
