pub mod Laws
pub mod Appends
pub mod Taking
pub mod Along
pub mod Ending
