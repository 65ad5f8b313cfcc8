pub mod Laws
pub mod Ring
pub mod Order
pub mod Magnitude
pub mod Linear
pub mod Tests
pub mod Fraction
mod Examples
