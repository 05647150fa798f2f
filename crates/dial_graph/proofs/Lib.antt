-- The laws of this crate's definitions.
pub mod Lists
pub mod Numbers
