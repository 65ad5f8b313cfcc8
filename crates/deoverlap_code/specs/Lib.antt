-- What the functions write, by the definitions.
pub mod Code
