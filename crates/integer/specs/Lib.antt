-- Whole numbers, how they compare, and fractions.
pub mod Integer
pub mod Compare
pub mod Fraction
