pub mod Upgrades
pub mod Files
