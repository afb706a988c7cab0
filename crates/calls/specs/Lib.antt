-- Demand 3 of the calls: what a host holds, a list of calls, and what holds of every list of calls that keep their promises.
pub mod Host
pub mod Statement
pub mod Counts
pub mod Stragglers
pub mod Answers
pub mod Held
pub mod Tests
pub mod SameHeld
