-- What the proofs share besides the laws of specs/.
mod Kept
pub mod Tested
pub mod Laws
