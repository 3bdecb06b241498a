-- Definitions, which public contracts cite: Watching.
-- For the proofs alone: Tagged.
pub mod Tagged
pub mod Watching
