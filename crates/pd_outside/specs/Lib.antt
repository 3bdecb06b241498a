-- Definitions, which public contracts cite.
pub mod Files
pub mod MemoryLibrary
pub mod MemorySink
