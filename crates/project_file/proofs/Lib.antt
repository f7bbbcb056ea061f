pub mod Cuts
pub mod EntryNames
mod Examples
pub mod Limits
pub mod ModuleNames
pub mod Saying
pub mod Steps
