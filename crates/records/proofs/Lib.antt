pub mod Located
pub mod Steps
pub mod Joins
pub mod Chosen
