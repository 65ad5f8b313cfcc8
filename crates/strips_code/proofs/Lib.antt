pub mod Strips
pub mod Ranges
pub mod Stacking
