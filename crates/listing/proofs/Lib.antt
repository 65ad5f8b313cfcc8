pub mod Exact
pub mod Decimal
pub mod Layers
mod Examples
pub mod Blank
