pub mod Changes
pub mod Statements
pub mod Rearranged
pub mod Laying
pub mod Objects
