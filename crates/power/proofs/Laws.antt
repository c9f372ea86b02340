-- The laws of this crate's definitions.
pub mod Cases
pub mod Faults
pub mod Gain
pub mod Steps
pub mod Triples
