-- The definitions that the contracts of this crate cite.
pub mod Layout
pub mod Lists
pub mod Made
