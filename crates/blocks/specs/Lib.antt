pub mod Blocked
pub mod Passed
