-- Definitions, which public contracts cite.
pub mod Pairing
pub mod Merging
