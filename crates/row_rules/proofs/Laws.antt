-- The laws of this crate's definitions.
pub mod Rules
pub mod Runs
pub mod Theorems
