-- The lines of a script: what each kind of line is, and what reading one answers.
pub mod Line
pub mod Laws
