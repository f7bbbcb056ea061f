pub mod Views
pub mod TypeDepths
mod Examples
pub mod WrittenLines
mod LineTexts
pub mod Characters
