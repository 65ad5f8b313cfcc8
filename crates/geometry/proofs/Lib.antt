pub mod Polygons
pub mod Identities
pub mod Heights
pub mod Between
pub mod Meet
pub mod Standing
pub mod Points
pub mod Sides
pub mod Refused
pub mod Fitness
pub mod Refusals
pub mod Orders
pub mod Magnitudes
pub mod Trapezoids
pub mod Layers
pub mod Ranges
mod Examples
