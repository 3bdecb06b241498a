-- Definitions, which public contracts cite.
pub mod Events
pub mod Held
