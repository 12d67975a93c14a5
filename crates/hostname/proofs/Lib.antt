pub mod Hosts
pub mod Scans
