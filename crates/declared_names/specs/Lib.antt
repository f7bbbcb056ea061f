pub mod Declaring
pub mod Parts
pub mod View
pub mod Rules
pub mod Rivals
