-- Demand 3: a world of player, windows and lines, its steps, and what holds of every list of steps.
pub mod Machine
pub mod World
pub mod Same
pub mod Sorts
pub mod Statement
pub mod Counts
pub mod Stragglers
pub mod Tests
pub mod Duds
