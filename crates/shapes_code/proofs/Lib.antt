pub mod Groups
pub mod Loops
pub mod Shapes
pub mod Parts
