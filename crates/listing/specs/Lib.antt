pub mod Listing
pub mod Pieces
pub mod Asks
