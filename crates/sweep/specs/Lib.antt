-- Segments swept left to right, a column between each two neighbouring events, and what lies in a column.
pub mod Sums
pub mod Segments
pub mod Columns
pub mod Sweep
