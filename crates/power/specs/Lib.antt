pub mod Steps
pub mod Gain
pub mod Triples
