-- The laws, proved of the definitions of specs/.
pub mod Races
pub mod Laws
pub mod Refusals
