-- Polygons, their winding numbers, and their fracture into trapezoids (paper 01: cutting a sheet), and what is proved of it.
pub mod Polygons
pub mod Fracture
pub mod Statements
