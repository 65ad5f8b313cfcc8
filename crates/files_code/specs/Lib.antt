-- A polygon of a file, and what a function is told of the file that it loads it from.
pub mod Code
