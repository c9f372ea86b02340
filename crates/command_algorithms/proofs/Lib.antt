pub mod Laws
mod Votes
mod Masks
