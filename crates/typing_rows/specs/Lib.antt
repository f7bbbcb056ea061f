pub mod Types
pub mod Typing
pub mod Conversions
pub mod Cases
pub mod Library
pub mod LibraryNames
