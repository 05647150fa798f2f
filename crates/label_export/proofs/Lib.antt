-- The lemmas of this crate.
mod Packing
