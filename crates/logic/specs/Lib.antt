-- The definitions that the contracts of this crate cite.
pub mod Decided
pub mod Rows
pub mod Sheets
pub mod Trees
pub mod Truth
pub mod Bounded
