-- The laws of this crate's definitions.
pub mod Met
pub mod Proved
pub mod Said
pub mod Shut
