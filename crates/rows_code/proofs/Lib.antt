pub mod Refusals
pub mod Rows
pub mod Bounds
pub mod Transistors
pub mod Cleared
