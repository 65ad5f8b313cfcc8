-- Arrays in order: an element put into its place, alone or joined with the one that is level with it.
pub mod Sorted
pub mod Weighed
