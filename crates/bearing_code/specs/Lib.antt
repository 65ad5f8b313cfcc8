-- Sets written over those of the trapezoids that a fold has written.
pub mod Code
