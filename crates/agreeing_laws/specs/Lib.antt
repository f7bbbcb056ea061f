pub mod Promises
pub mod Beside
