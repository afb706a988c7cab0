-- What the player holds for one window: its view, what the operations at it promise, what they ask first, and what Start leaves of it.
pub mod View
pub mod Promise
pub mod Admission
pub mod Laws
