pub mod Laws
pub mod Walking
pub mod Meaning
mod Examples
