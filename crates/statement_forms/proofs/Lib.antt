pub mod Ends
pub mod Making
pub mod Sharing
pub mod Drawn
pub mod Choosing
pub mod Slotting
pub mod OneMeaning
