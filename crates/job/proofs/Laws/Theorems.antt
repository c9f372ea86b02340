-- The laws of this crate's definitions.
pub mod All
pub mod Drops
pub mod Loads
pub mod Runs
pub mod Said
pub mod Taking
