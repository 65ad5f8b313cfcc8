pub mod Laying
pub mod Whole
