-- Definitions, which public contracts cite: Words, Names, Grammar and Refusals.
-- For the proofs alone: Machine and Reading.
pub mod Words
pub mod Names
pub mod Grammar
pub mod Machine
pub mod Refusals
pub mod Reading
