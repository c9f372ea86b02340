-- The laws of this crate's definitions.
pub mod Resuming
pub mod Scaled
pub mod Update
