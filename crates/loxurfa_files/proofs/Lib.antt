pub mod LayerFiles
pub mod Fracturing
