-- Positions with names, in order, in arrays.
pub mod Entries
