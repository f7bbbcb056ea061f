pub mod Separate
pub mod Ordered
pub mod Mentioned
pub mod Upgrades
