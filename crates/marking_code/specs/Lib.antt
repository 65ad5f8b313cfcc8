-- The shapes of a layer tried with those of another.
pub mod Code
