pub mod Writing
pub mod Points
pub mod Placed
