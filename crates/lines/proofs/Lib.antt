-- The laws of this crate's definitions.
mod Parts
