mod Examples
pub mod FileNames
pub mod Pieces
