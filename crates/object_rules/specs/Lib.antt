pub mod Autos
pub mod Uses
pub mod Shown
pub mod Properties
pub mod Terminators
pub mod Rows
pub mod Shapes
