-- The laws of this crate's definitions.
pub mod All
pub mod By
pub mod Joined
pub mod Listings
