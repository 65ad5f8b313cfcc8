-- Boxes in whole numbers round trapezoids: two trapezoids whose boxes are apart have nothing in common.
pub mod Whole
pub mod Boxes
pub mod Statements
