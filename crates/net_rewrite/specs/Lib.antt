pub mod View
pub mod Parts
pub mod Modules
pub mod Starts
