mod Examples
pub mod TwosComplement
pub mod Limits
pub mod BitLimits
pub mod Logical
pub mod Places
pub mod FixedTexts
pub mod EachBit
pub mod Nearest
