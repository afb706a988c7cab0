-- The laws, proved of the definitions of specs/, and what the proofs share besides.
pub mod Sides
pub mod Worlds
pub mod Calls
pub mod Settled
pub mod Takes
pub mod Sends
pub mod EarlyLaws
pub mod Played
pub mod Opening
