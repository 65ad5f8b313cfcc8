pub mod Whole
pub mod Magnitudes
pub mod Holds
pub mod Apart
pub mod Rejecting
pub mod Words
mod Examples
