-- The edges of a polygon in slices.
pub mod Edges
