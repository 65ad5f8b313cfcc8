-- A list put in order with one element for each level, and the next element above a given one.
pub mod Levels
