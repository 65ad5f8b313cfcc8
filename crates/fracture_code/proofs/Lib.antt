pub mod Sums
pub mod Slabs
pub mod Sweeping
