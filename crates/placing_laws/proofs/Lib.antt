pub mod Lists
mod Codes
mod Counts
pub mod Members
mod Together
mod Standing
mod Alone
mod PartHeads
mod Parts
mod Joined
pub mod Placing
pub mod Lines
pub mod Labels
