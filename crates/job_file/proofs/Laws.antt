-- The laws of this crate's definitions.
mod Examples
pub mod File
pub mod Numbers
pub mod Theorems
