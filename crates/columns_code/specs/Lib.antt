-- The four sides by number, their vertical order, and the state of a column.
pub mod Order
pub mod Code
