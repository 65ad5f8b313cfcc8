-- Columns of a polygon, as functions hold and fill them.
pub mod Code
