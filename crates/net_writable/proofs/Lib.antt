mod Pairs
mod Listed
mod Depths
mod Decided
mod FileNames
