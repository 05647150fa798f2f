-- The laws of this crate's definitions.
pub mod Bits
pub mod Joins
