pub mod Bounded
pub mod Uses
pub mod Widening
pub mod Cells
pub mod Dimensions
pub mod Bounding
pub mod Holders
pub mod Locked
pub mod Firsts
pub mod Listed
pub mod Meaning
pub mod Determined
mod Examples
