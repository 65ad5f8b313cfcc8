-- What folds answer and write, by the definitions.
pub mod Code
