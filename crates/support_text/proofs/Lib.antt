pub mod Listed
mod NotedRows
pub mod Least
pub mod Noted
pub mod Made
pub mod Placed
pub mod Writable
