pub mod Resolved
pub mod Spelled
pub mod SpelledView
