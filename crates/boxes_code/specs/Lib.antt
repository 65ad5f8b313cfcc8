-- What the functions of boxes require, and boxes in a slice.
pub mod Code
pub mod Layers
