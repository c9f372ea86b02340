-- The laws of this crate's definitions.
pub mod Body
pub mod Gains
pub mod Settings
