pub mod Points
pub mod Sources
pub mod Archive
pub mod Sets
mod Examples
