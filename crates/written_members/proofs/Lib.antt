pub mod CommentCuts
pub mod EnumLines
pub mod ExtentLists
pub mod Lasts
pub mod Noting
pub mod Pairs
pub mod Unions
