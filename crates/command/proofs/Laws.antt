-- The laws of this crate's definitions.
pub mod Cases
pub mod Row
