-- What the programs of cases put into a file, and into words.
pub mod Putting
