-- What the functions require of their lists.
pub mod Code
