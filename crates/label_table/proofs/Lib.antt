-- The laws of this crate's definitions.
pub mod Changes
pub mod Closing
pub mod Filling
pub mod Building
pub mod Truths
pub mod Alike
pub mod Behind
