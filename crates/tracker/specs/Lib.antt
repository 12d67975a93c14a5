pub mod Tokens
pub mod Parts
pub mod Directories
pub mod Tracking
