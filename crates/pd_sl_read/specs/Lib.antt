-- Definitions, which public contracts cite: Places, Tokens and Answers.
-- For the proofs alone: Held and Behind.
pub mod Held
pub mod Places
pub mod Behind
pub mod Tokens
pub mod Answers
