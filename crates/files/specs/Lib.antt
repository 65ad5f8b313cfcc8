-- Polygon files and layer files (paper 01: sheets and books): which are refused, what they hold, and what a reader and a writer of layers do.
pub mod Formats
pub mod Pairs
pub mod Directory
pub mod Contents
pub mod Form
pub mod Rows
pub mod Outcomes
pub mod Statements
pub mod Editions
