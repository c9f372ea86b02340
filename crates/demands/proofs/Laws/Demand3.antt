-- The laws of this crate's definitions.
pub mod One
pub mod Proved
pub mod Rows
