-- The definitions that the contracts of this crate, and of the labeller above it, cite.
pub mod Layout
pub mod Labels
pub mod Entries
pub mod Changes
pub mod Progress
