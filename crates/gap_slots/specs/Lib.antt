pub mod Slots
pub mod Asks
