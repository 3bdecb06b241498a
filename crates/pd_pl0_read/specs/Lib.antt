-- Definitions, which public contracts cite: Tokens, Resolving, Places and Answers.
-- For the proofs alone: Entries, Held and Behind.
pub mod Tokens
pub mod Resolving
pub mod Places
pub mod Answers
pub mod Entries
pub mod Held
pub mod Behind
