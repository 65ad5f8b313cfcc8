-- The text that the lister prints: numbers, lines, listings, and what it prints for the bytes of a polygon file.
pub mod Lister
pub mod Listing
pub mod Listed
pub mod Statements
