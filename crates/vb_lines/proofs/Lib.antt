pub mod Reserved
pub mod Cutting
pub mod Rows
pub mod Frames
pub mod FoundOpen
pub mod Builds
pub mod Adds
pub mod Readings
pub mod Passing
pub mod Taking
pub mod Heads
pub mod Owned
pub mod FormFacts
pub mod Meanings
pub mod OneTree
pub mod OneAnswer
mod Examples
