pub mod Writing
pub mod Numbers
pub mod Texts
pub mod Sizes
