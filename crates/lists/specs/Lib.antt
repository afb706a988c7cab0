-- What several crates say of lists and tests: ways to go by cases, a test of every item, membership and the last item, rising lists, the
-- numbers above a given one, the items by their place, a list written over another, the first cells of a row, the refusals of a call in
-- order, an answer with its values, and tests that decide equality.
pub mod Cases
pub mod All
pub mod Elem
pub mod Rising
pub mod Above
pub mod Set
pub mod Over
pub mod Cells
pub mod Refusal
pub mod Answer
pub mod Keep
pub mod Same
pub mod SameLaws
