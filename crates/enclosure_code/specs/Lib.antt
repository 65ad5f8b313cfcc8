-- What the functions answer, by the definitions.
pub mod Code
