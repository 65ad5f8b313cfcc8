pub mod Slices
pub mod Numbers
pub mod Building
