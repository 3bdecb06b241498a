-- Definitions, which public contracts cite.
pub mod Rooted
