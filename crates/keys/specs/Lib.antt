pub mod Form
pub mod Order
pub mod Hash
pub mod Kinds
pub mod Forms
pub mod Orders
pub mod Hashes
