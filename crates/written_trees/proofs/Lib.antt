mod Sample
mod ExprExamples
mod LineExamples
mod ModuleExamples
mod SupportExamples
mod ClassExamples
