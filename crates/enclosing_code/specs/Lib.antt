-- Shapes that enclose others.
pub mod Code
