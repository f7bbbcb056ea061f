pub mod Puts
pub mod Compares
mod Decimals
pub mod Listing
pub mod Grammar
pub mod Apart
pub mod Translations
pub mod Upgrades
pub mod Translating
pub mod Named
pub mod Requests
pub mod Complete
pub mod Ends
pub mod Generating
