-- What the function answers, by the definitions.
pub mod Code
