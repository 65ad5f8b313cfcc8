-- The set operations on layers, deoverlapping (paper 01: disjointing) and equality (sameness), and what is proved of them.
pub mod Operations
pub mod Space
pub mod Counts
pub mod Statements
pub mod Sources
pub mod Folds
