pub mod Powers
pub mod Scales
