-- The shapes of a layer, one after the other.
pub mod Code
