-- The laws of this crate's definitions.
pub mod All
pub mod Books
pub mod Changes
pub mod Filter
pub mod Once
pub mod Ranges
pub mod Refusals
pub mod Runs
pub mod Said
pub mod Slots
pub mod Steps
