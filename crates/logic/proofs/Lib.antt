-- The laws of this crate's definitions.
pub mod Rows
pub mod Walks
pub mod Within
pub mod Deciding
pub mod Laws
pub mod Orderly
