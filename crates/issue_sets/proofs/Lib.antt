pub mod Ordered
pub mod Steps
pub mod Among
pub mod Listed
mod Examples
