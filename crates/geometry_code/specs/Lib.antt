-- How the functions' structs and words stand for what the definitions speak of.
pub mod Code
pub mod Polygons
