pub mod Faults
pub mod Cases
pub mod Records
