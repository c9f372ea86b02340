pub mod Load
pub mod Jobs
pub mod Says
pub mod Parts
pub mod Theorems
