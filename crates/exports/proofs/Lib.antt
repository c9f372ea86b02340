pub mod Laws
mod Tells
mod Hands
mod Writes
