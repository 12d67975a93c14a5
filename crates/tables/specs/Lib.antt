pub mod Listings
pub mod Stores
pub mod Tabled
