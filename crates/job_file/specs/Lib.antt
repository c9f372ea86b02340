pub mod File
pub mod Numbers
pub mod Theorems
