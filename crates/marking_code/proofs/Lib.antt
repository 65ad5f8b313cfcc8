pub mod Families
pub mod Shapes
