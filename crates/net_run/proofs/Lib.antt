pub mod Writing
pub mod Numbers
pub mod Examples
pub mod CallExamples
pub mod ModuleExamples
