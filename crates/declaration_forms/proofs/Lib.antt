pub mod Leads
pub mod Ends
pub mod Making
pub mod Declaring
pub mod Lines
pub mod OneLine
