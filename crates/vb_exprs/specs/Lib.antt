pub mod TokenClass
pub mod Scan
pub mod Reading
pub mod Answer
