pub mod Tables
mod OperatorExamples
mod ConversionExamples
mod LibraryExamples
