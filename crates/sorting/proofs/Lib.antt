pub mod Inserting
pub mod Merging
pub mod Ends
pub mod Weighing
