-- Definitions, which public contracts cite.
pub mod Words
pub mod Fuel
