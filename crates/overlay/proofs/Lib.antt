pub mod Ranges
pub mod Entering
pub mod Overlaps
pub mod Search
pub mod Events
pub mod Stack
pub mod Count
pub mod Parts
pub mod Tags
pub mod Sums
pub mod Opposite
pub mod Two
pub mod Fifteen
pub mod Tagged
mod Examples
