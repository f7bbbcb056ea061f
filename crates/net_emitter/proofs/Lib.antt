pub mod Emitting
pub mod Hexadecimals
pub mod Encodings
pub mod Bracketing
pub mod Listed
pub mod Depths
