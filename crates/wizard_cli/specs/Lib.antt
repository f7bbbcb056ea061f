pub mod Answers
pub mod Settings
pub mod Headline
pub mod Runs
pub mod Upgrading
pub mod Steps
