-- What is seen of `components` once rows 1 to 11 have let it pass.
pub mod Code
