-- Paper 01's first section, polygons, and the rows 7 to 11 of its table.
pub mod Limit
pub mod Lines
pub mod Positions
pub mod Standing
pub mod Points
pub mod Orders
pub mod Trapezoids
pub mod Refusals
pub mod Fitness
pub mod Ranges
pub mod Polygons
