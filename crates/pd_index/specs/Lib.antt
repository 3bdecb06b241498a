-- Definitions, which public contracts cite.
pub mod Indexing
pub mod Kept
pub mod Among
pub mod Places
