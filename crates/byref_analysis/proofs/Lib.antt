pub mod Uses
pub mod Later
pub mod Meaning
mod Examples
