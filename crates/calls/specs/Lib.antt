-- The public functions: what each call answers and writes (paper 01), for every input, and what that means for the points.
pub mod Answers
pub mod Rows
pub mod Outcomes
pub mod Components
pub mod Transistors
pub mod Packed
pub mod Promises
pub mod Statements
pub mod Disjoint
pub mod Editions
pub mod PackedApart
pub mod Table
