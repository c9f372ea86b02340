pub mod Laws
mod Turns
