-- The window's record: what an entry makes of it, what it allows, laws, and whether two are the same.
pub mod Record
pub mod Same
pub mod SameLaws
