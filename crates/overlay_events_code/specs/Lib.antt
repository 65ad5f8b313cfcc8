-- The events of an overlay in the range of the first trapezoid, in arrays.
pub mod Events
