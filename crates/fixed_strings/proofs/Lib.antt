pub mod Meaning
mod Examples
