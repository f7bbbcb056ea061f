pub mod Indexes
pub mod Kept
pub mod Lists
pub mod Targets
