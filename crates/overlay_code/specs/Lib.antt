-- Which columns are passed over.
pub mod Code
