-- The laws of this crate's definitions.
pub mod After
pub mod Change
