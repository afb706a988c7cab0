-- The operations on the whole player: laws of what they ask first and of what Start does.
pub mod GuardLaws
pub mod Starting
pub mod Turns
