pub mod Ascii
mod Examples
pub mod Pieces
