-- The laws of this crate's definitions.
mod Compare
mod Runs
