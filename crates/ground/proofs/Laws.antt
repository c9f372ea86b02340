-- The laws of this crate's definitions.
pub mod OnAnswers
pub mod Bits
pub mod Bytes
pub mod Choice
pub mod Integers
pub mod Lists
pub mod Ranges
pub mod Some
pub mod Sums
pub mod Tables
