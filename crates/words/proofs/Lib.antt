pub mod Laws
pub mod Turns
pub mod Values
pub mod Series
