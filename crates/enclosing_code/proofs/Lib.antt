pub mod Stages
pub mod Rows
