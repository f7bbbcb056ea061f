pub mod Outcomes
pub mod Positions
pub mod Frames
pub mod Machines
