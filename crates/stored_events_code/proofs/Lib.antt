pub mod Entering
pub mod Crossings
pub mod Marks
pub mod Names
