-- What the programs of cases put into a file.
pub mod Code
