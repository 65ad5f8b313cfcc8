pub mod Sets
pub mod Sourced
