-- The laws of this crate's definitions.
pub mod Opens
pub mod Whole
pub mod Added
pub mod Steps
pub mod TreesMade
pub mod TreesRead
pub mod ClaimsRead
pub mod Ordered
pub mod Exact
