-- The definitions that the contracts of this crate cite, and what crates above share.
pub mod Meaning
pub mod Held
pub mod Stuck
pub mod Refusals
pub mod Targets
