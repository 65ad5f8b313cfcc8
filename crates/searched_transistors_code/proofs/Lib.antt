pub mod Extracting
