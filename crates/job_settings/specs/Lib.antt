pub mod Settings
pub mod Gains
pub mod Body
