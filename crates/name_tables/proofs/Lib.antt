mod Examples
pub mod Firsts
pub mod HomeLists
pub mod NamedFirsts
pub mod SameTables
pub mod TableRows
pub mod WordMaps
pub mod WordNumbers
