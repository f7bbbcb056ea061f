pub mod Texts
pub mod Modules
pub mod Held
pub mod Faults
pub mod Loading
pub mod Steps
pub mod Laws
