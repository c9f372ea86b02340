pub mod Stepping
pub mod Rules
pub mod Ranges
pub mod Runs
pub mod History
pub mod Refusing
pub mod Says
pub mod Theorems
