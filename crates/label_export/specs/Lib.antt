-- The definitions that the contracts of this crate cite.
pub mod Packed
pub mod Answers
pub mod Refusals
