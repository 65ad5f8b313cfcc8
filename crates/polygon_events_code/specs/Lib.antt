-- How the functions' structs stand for what the definitions speak of.
pub mod Code
