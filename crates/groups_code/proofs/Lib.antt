pub mod Placing
pub mod Adding
pub mod Gathering
