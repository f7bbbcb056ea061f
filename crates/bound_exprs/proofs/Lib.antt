pub mod ArgumentLists
mod ResolvedExamples
mod SpelledExamples
pub mod SpelledLists
