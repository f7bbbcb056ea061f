pub mod Places
pub mod Marked
pub mod Found
