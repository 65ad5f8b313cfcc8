-- Transistors from three layers (paper 02, request (i)).
pub mod Shapes
pub mod Extraction
pub mod Statements
