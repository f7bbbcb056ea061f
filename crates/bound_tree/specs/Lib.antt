pub mod RuleSets
pub mod Tree
pub mod Source
pub mod View
pub mod Lines
pub mod Labels
pub mod Targets
