mod Examples
pub mod Notes
pub mod Tables
