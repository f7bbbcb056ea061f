pub mod Tables
pub mod Among
pub mod Numbering
pub mod Firsts
pub mod Links
pub mod Split
pub mod Ends
pub mod OptionLines
pub mod StatementLists
pub mod Points
pub mod Above
pub mod Paths
pub mod Verdicts
mod Examples
