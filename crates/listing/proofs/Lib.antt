pub mod Laws
mod Running
mod Stored
