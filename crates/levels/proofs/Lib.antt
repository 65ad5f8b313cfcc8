pub mod Order
pub mod Laws
pub mod Unique
mod Examples
