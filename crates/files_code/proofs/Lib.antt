pub mod Directories
pub mod Loading
pub mod Passing
pub mod Bodies
