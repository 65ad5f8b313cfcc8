-- What a function is told of the polygon that it fractures.
pub mod Code
