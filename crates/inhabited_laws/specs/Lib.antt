pub mod Sample
pub mod Memories
pub mod Objects
pub mod ObjectMemories
