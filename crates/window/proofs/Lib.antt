-- What the proofs share besides the laws of specs/. All but `Regrouped` are for the crates above too.
pub mod Empty
pub mod Refused
pub mod Checked
mod Regrouped
