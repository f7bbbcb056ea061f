pub mod Jumps
pub mod Heads
pub mod Rows
pub mod Walks
pub mod Marks
