-- The laws, proved of the definitions of specs/.
pub mod Tickless
pub mod Delivered
