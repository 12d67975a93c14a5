pub mod Walks
pub mod Rows
pub mod Puts
