-- From the polygon files that were sent to the layer file that is kept, by calls of the public functions, and what is proved of it.
pub mod Calls
pub mod Archive
pub mod Statements
