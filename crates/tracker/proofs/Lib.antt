pub mod Parts
pub mod Proper
pub mod Tellings
pub mod Learning
pub mod Blocking
pub mod Marking
pub mod Sets
pub mod Admitting
