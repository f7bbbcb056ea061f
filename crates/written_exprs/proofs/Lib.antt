mod Indexes
mod LooseLists
mod Nodes
mod Pushes
mod Targets
