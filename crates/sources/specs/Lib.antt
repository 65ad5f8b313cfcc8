-- Sets of source layers, and trapezoids with their sets.
pub mod Sets
pub mod Sourced
pub mod Statements
