pub mod Change
pub mod After
