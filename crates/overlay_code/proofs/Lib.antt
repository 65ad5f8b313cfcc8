pub mod Within
pub mod Filling
