-- The definitions that the contracts of this crate cite.
pub mod Models
pub mod Cases
