-- Definitions, which public contracts cite: Plans, Files, Causes and Answers.
-- For the proofs alone: Stops.
pub mod Plans
pub mod Files
pub mod Causes
pub mod Answers
pub mod Stops
