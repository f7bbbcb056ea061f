pub mod Premises
pub mod Entered
