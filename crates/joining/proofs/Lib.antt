pub mod Where
pub mod Wheres
pub mod Joining
pub mod There
pub mod Rooms
