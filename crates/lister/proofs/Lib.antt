-- What the lister prints.
pub mod Printing
