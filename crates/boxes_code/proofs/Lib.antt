pub mod Rounding
pub mod Magnitudes
pub mod Branches
pub mod Slices
pub mod Layers
pub mod BoxedLayers
pub mod Skipping
pub mod Small
