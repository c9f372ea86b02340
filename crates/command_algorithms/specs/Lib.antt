pub mod Algorithms
pub mod Sets
