-- The events of a polygon in arrays.
pub mod Events
