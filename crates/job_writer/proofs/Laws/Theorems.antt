-- The laws of this crate's definitions.
pub mod All
pub mod Reads
pub mod Said
