pub mod RuleLaws
pub mod Views
mod TargetExamples
