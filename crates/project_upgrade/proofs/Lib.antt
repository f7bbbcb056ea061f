pub mod Broken
pub mod Reported
