pub mod Numbered
pub mod Unions
pub mod ByFile
pub mod Entries
pub mod Holders
pub mod Arrays
mod Examples
