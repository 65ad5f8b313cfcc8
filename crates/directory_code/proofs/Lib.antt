pub mod Walking
pub mod Finding
