pub mod Further
pub mod Marks
pub mod Broken
pub mod View
