mod Plain
mod Steps
pub mod Bodies
pub mod Tests
pub mod Aims
pub mod Labels
