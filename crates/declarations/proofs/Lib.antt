pub mod Circling
pub mod Completing
pub mod Counts
pub mod Filling
pub mod Firsts
pub mod Members
pub mod Turns
pub mod Values
