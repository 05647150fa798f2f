-- The definitions that the contracts of this crate cite.
pub mod Lists
pub mod Dials
pub mod Made
