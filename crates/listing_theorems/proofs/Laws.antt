-- The laws of this crate's definitions.
pub mod Marked
pub mod Theorems
