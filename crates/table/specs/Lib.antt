-- The proved table of document 01, (a) to (j), as one theorem about the rules.
pub mod Run
pub mod States
pub mod Table
pub mod Examples
