pub mod Answers
pub mod Classes
pub mod Clean
pub mod Contents
pub mod Found
pub mod Physical
pub mod Readings
