pub mod Following
pub mod Nodes
pub mod Order
pub mod Reaching
pub mod Runs
