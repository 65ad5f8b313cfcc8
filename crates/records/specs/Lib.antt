-- Lists cut into records, buffers that hold them, and 32-bit words in bytes.
pub mod Records
pub mod Limits
pub mod Words
