mod Rising
mod Readings
mod Heads
mod Lines
mod Modules
pub mod Projects
