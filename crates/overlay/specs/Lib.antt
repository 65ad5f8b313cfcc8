-- The overlay of two trapezoids A and B (paper 01: pair cut), and what is proved of it.
pub mod Overlaps
pub mod Overlay
pub mod Statements
