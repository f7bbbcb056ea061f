pub mod View
pub mod Cases
pub mod Groups
