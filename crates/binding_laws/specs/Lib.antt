pub mod Causes
pub mod Typing
