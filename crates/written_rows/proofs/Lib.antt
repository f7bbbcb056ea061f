pub mod Amounts
pub mod Bounds
pub mod Dimensions
pub mod Pieces
pub mod Rows
