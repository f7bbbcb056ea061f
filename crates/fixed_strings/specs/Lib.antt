pub mod Lengths
pub mod Declaring
pub mod Given
pub mod Rows
