-- Which collector encloses each base, and which base each emitter.
pub mod Code
