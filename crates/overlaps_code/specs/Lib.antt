-- Crossings between two positions, and events in an array.
pub mod Code
