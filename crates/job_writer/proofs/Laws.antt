-- The laws of this crate's definitions.
pub mod Parts
pub mod Theorems
pub mod Writing
