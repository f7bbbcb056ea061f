pub mod Decoded
pub mod Places
pub mod Unique
pub mod Taking
pub mod Loads
pub mod Either
pub mod Outcomes
pub mod Nested
pub mod Coverage
mod Examples
