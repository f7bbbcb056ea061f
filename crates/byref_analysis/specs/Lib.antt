pub mod Tests
pub mod FactsOf
pub mod Lines
pub mod Quiet
pub mod Properties
pub mod Arguments
pub mod Order
pub mod Rows
