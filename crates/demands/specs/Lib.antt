pub mod Rows
pub mod Refusals
pub mod Live
pub mod Demand1
pub mod Demand2
pub mod Demand3
