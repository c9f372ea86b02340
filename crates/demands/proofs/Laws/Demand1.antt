-- The laws of this crate's definitions.
pub mod Kept
pub mod Pieces
pub mod Proved
pub mod Runs
