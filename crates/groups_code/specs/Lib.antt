-- The groups of a column in arrays.
pub mod Groups
