-- The laws, proved of the definitions of specs/.
pub mod Run
pub mod States
pub mod Table
