-- Words of memory with sets of source layers written over those that stood there.
pub mod Code
