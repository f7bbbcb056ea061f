mod Examples
pub mod Asking
pub mod Counts
pub mod Found
pub mod Requests
pub mod Walks
pub mod WordClasses
