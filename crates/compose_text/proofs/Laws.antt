-- The laws of this crate's definitions.
pub mod Composing
pub mod Theorems
