-- What the equality test answers, by the definitions.
pub mod Code
