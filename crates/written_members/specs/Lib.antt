pub mod Noted
pub mod Shown
pub mod Statements
pub mod View
pub mod Extents
pub mod Heads
pub mod Groups
pub mod Walk
