-- The laws of this crate's definitions.
pub mod Load
pub mod Theorems
