mod Each
mod Standing
mod Readings
pub mod Modules
mod Declared
mod Settled
mod Bound
mod Marked
mod Further
pub mod Places
