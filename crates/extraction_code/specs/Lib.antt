-- The transistors of three layers.
pub mod Code
