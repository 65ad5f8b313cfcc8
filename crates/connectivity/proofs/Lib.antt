pub mod Lines
pub mod Touches
pub mod Paths
pub mod Joining
pub mod Owners
pub mod Exact
pub mod Examples
