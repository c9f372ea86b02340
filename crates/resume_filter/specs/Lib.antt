pub mod Scaled
pub mod Update
pub mod Resuming
