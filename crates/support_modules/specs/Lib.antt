pub mod Extents
pub mod Autos
pub mod Paths
pub mod Flags
pub mod Fillings
