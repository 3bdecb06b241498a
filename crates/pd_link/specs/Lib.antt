-- Definitions, which public contracts cite: Linking.
-- For the proofs alone: Walks.
pub mod Linking
pub mod Walks
