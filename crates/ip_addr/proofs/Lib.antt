pub mod Registries
pub mod Longest
pub mod Numbers
pub mod Sames
mod Examples
