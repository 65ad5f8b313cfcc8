-- What is seen of a call once rows 1 to 11 have let it pass.
pub mod Code
