-- The laws of this crate's definitions.
mod Examples
pub mod Fits
pub mod Order
pub mod Parts
pub mod Products
pub mod Signs
