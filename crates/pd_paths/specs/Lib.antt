-- Definitions, which public contracts cite.
pub mod Tree
pub mod Text
pub mod Tally
pub mod Laws
-- For the proofs.
pub mod Counting
