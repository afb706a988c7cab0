-- The laws of the rules, proved of the definitions of specs/: the refusals of each operation in order, what it does, and the laws that
-- the rules offer.
pub mod Checks
pub mod Shaped
pub mod Answer
pub mod Parts
pub mod Operate
pub mod Main
pub mod TickExamples
pub mod Catch
pub mod Batch
pub mod Send
pub mod Written
pub mod Ack
pub mod OtherTerm
pub mod Drop
pub mod Join
pub mod Said
pub mod Start
pub mod Speaking
pub mod FirstTerm
pub mod Late
pub mod Append
pub mod Offers
