pub mod Numbers
pub mod LiteralsRead
pub mod TypesRead
pub mod Lengths
pub mod Heads
pub mod ExpressionsRead
pub mod ReadBack
pub mod Printable
mod Examples
