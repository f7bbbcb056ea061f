pub mod Positions
pub mod Moved
mod Suited
pub mod Changes
pub mod Flat
pub mod Rearranged
mod Tables
mod Sizes
pub mod Renewed
pub mod ArrayItems
pub mod ArrayImages
pub mod Resizing
pub mod Places
pub mod Scalars
pub mod Reading
pub mod Writing
mod SimpleShapes
pub mod Groups
pub mod GroupValues
pub mod GroupWriting
pub mod StaticRoots
mod GroupFills
pub mod GroupsMade
pub mod StaticGroups
pub mod Elements
pub mod Making
pub mod Parameters
pub mod ByPledges
pub mod Statics
pub mod Filling
pub mod Parts
pub mod LaidValues
mod Overwritten
mod Laid
mod FirstArrays
pub mod Alone
pub mod Quiet
pub mod ArraysMade
pub mod Members
pub mod NewObjects
pub mod Uncompared
pub mod ObjectFields
mod ClassVariables
pub mod Objects
pub mod Autos
pub mod AutosMade
