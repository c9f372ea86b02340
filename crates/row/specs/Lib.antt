pub mod Asks
pub mod Calm
