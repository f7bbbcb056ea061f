pub mod Positions
pub mod Projects
