-- The laws of this crate's definitions.
pub mod All
pub mod Page
pub mod Resuming
