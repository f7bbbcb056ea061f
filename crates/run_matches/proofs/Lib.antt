pub mod Lasting
pub mod Samples
pub mod UpgradeExamples
pub mod Examples
pub mod CallSamples
mod ReferenceSamples
mod QuietArrays
mod QuietSamples
mod ArraySamples
mod ElementSamples
mod TypeSamples
mod ObjectSamples
mod StaticSamples
mod AutoSamples
mod PropertySamples
mod IndexSamples
pub mod StoreExamples
mod CoveredExamples
mod LibraryExamples
pub mod SharedExamples
