-- Definitions, which public contracts cite: Locals, Additions and Texts.
-- For the proofs alone: Scopes and Fits.
pub mod Scopes
pub mod Locals
pub mod Additions
pub mod Texts
pub mod Fits
