-- Definitions, which public contracts cite: Words, Grammar and Refusals.
-- For the proofs alone: Machine and Reading.
pub mod Words
pub mod Grammar
pub mod Machine
pub mod Refusals
pub mod Reading
