pub mod Fits
pub mod Expired
pub mod Firsts
pub mod Passes
