-- Definitions, which public contracts cite.
pub mod Results
pub mod Suits
pub mod Text
-- For the proofs.
pub mod Counting
