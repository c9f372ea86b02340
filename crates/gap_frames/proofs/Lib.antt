pub mod Laws
mod Spans
mod Turns
