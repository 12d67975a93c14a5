pub mod Entries
pub mod Listed
pub mod Turns
pub mod Walks
pub mod Scans
