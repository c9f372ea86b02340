pub mod Windows
pub mod Kept
pub mod Asks
