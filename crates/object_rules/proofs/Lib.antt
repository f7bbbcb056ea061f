pub mod Noting
pub mod Meaning
pub mod Alike
mod Examples
