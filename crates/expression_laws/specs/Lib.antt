pub mod Images
pub mod Calls
pub mod Statements
