pub mod Lasts
pub mod Parted
pub mod Lists
