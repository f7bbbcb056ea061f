pub mod Counts
pub mod FirstRivals
pub mod Following
pub mod Loops
pub mod Places
pub mod Rows
pub mod Words
pub mod Examples
mod RowExamples
