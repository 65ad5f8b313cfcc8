pub mod Sums
pub mod Prefix
pub mod Slabs
pub mod Column
pub mod Between
pub mod Sweep
mod Examples
