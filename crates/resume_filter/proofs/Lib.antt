pub mod Laws
mod Middle
