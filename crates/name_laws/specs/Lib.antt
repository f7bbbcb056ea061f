pub mod Free
pub mod Numbered
pub mod Objects
