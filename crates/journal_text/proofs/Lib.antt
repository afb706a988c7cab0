-- What the proofs share besides the laws of specs/, and the laws above the definitions of answers and of the pass: refusals in their
-- order, the round trips, the pass over a held journal, old files, and a line as two pairs about its kind.
mod Stepping
mod Answering
mod Passing
mod Putting
pub mod AnswerLaws
pub mod RoundTrip
pub mod CleanLaws
pub mod OldFiles
pub mod Pairs
