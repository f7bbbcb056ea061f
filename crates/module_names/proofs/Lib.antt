mod Units
mod Tokens
mod Contents
mod Cuts
mod Statements
mod Declarations
mod Lines
mod Modules
pub mod Projects
