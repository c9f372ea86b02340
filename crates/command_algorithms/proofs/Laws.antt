-- The laws of this crate's definitions.
pub mod Algorithms
pub mod Sets
