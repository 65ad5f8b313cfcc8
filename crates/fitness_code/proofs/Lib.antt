pub mod Branches
pub mod Checking
