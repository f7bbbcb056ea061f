pub mod Parts
pub mod ImplicitLocals
pub mod Lines
pub mod Mentions
pub mod Bodies
pub mod Programs
pub mod View
