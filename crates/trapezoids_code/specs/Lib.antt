-- Trapezoids as functions hold them, and tails that they write into.
pub mod Placed
pub mod Tails
