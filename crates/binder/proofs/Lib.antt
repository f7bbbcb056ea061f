pub mod PlainValues
pub mod Invoked
pub mod BoundBlocks
pub mod Counts
pub mod Sources
pub mod BodyLists
pub mod BoundPrograms
pub mod Gathering
pub mod IndexWords
pub mod LocalEntries
mod Sample
mod PartExamples
mod LocalExamples
mod LineExamples
mod BodyExamples
