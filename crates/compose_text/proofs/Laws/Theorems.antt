-- The laws of this crate's definitions.
pub mod All
pub mod OnAnswers
pub mod Items
pub mod Lines
pub mod Meaning
pub mod Named
pub mod Sizes
