pub mod Firsts
pub mod WordMaps
pub mod WordNumbers
