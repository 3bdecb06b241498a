-- Definitions, which public contracts cite.
pub mod Program
pub mod Binary
pub mod Kinds
pub mod Linked
pub mod WellFormed
pub mod Kept
-- For the proofs alone.
pub mod Seen
