pub mod Uncaptured
pub mod Follows
pub mod Rows
pub mod Items
pub mod Constants
pub mod Library
pub mod Functions
pub mod Laws
