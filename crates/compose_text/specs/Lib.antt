pub mod Composing
pub mod Sentences
pub mod Standing
pub mod Theorems
