pub mod Kept
pub mod Ranks
