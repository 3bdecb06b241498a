-- Definitions, which public contracts cite.
pub mod Pl0
