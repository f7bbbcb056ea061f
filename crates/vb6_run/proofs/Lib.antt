mod Samples
mod Examples
mod ErrorExamples
mod ArrayExamples
mod CallExamples
mod ObjectExamples
