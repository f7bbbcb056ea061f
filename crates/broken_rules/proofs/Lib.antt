pub mod Numbers
pub mod PlainLines
