pub mod Branches
pub mod Loops
pub mod Layers
