pub mod ConstantParts
mod ConvertingExamples
mod ElementExamples
pub mod LastOnes
mod LibraryCallExamples
pub mod Links
pub mod ListLinks
mod MeaningExamples
pub mod MemberMaps
mod OperatorExamples
mod PassingExamples
pub mod Placing
pub mod Pushes
pub mod RaiseLists
pub mod SameMembers
mod Sample
mod SampleProject
mod TargetExamples
