-- What a function is told of the directory that it reads.
pub mod Code
