pub mod Success
pub mod Steps
pub mod Calls
pub mod Possible
mod Each
pub mod Points
pub mod Sets
pub mod Lines
pub mod Raised
pub mod Merged
pub mod Contracts
pub mod Same
pub mod Chains
pub mod Disjoint
pub mod Memberships
mod Examples
