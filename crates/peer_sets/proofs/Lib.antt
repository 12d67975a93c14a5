pub mod Makes
pub mod Marks
pub mod Rows
