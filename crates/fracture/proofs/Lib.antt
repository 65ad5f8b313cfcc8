pub mod Edges
pub mod Marks
pub mod Events
pub mod Count
pub mod Points
pub mod Fitness
mod Examples
