-- Main and Catch at one window: what they test before their rules.
pub mod Guards
