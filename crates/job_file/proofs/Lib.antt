pub mod Laws
mod Bits
