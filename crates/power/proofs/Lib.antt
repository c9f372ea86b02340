pub mod Laws
mod Sizes
