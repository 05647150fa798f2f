pub mod Runs
pub mod Tokens
