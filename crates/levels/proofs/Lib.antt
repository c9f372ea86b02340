pub mod Laws
mod Entries
