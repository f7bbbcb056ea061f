pub mod Fronts
pub mod LineForms
pub mod Answer
pub mod Pieces
