-- Definitions, which public contracts cite: Attaching, Before, Doing and Results.
-- For proofs above: Laws.
pub mod Attaching
pub mod Before
pub mod Doing
pub mod Results
pub mod Laws
