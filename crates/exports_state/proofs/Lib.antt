pub mod Laws
mod Reading
mod Unpacking
