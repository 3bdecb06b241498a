-- Definitions, which public contracts cite.
pub mod Framing
