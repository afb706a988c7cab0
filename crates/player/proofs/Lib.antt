-- What the proofs of the crates above share besides the laws of specs/.
pub mod Refused
pub mod Sixteen
