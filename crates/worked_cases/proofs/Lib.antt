-- The proofs of the worked cases.
pub mod Computing
pub mod Proved
