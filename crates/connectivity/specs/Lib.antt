-- Trapezoids that touch, and the connected components of a layer (paper 01: components).
pub mod Touching
pub mod Paths
pub mod Components
