-- Definitions, which public contracts cite: Names, Linked, Loading and Tables.
-- For the proofs alone: Scopes.
pub mod Names
pub mod Linked
pub mod Loading
pub mod Tables
pub mod Scopes
