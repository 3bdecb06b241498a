-- Definitions, which public contracts cite.
pub mod Workload
pub mod Summing
