-- Triples in a list of words.
pub mod Code
