-- What the set operations write, by the definitions, and layers of few trapezoids.
pub mod Code
