-- The laws of this crate's definitions.
pub mod OnAnswers
pub mod Rows
