pub mod Shapes
pub mod Enclosing
pub mod Triples
pub mod Codec
pub mod Apart
pub mod Counts
pub mod Examples
