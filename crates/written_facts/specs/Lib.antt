pub mod United
pub mod Statements
pub mod Shapes
