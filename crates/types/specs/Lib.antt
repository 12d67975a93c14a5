pub mod Times
pub mod Ingresses
pub mod Bits
