-- A text put into a buffer.
pub mod Code
