-- Definitions, which public contracts cite: Texts and Additions.
-- For the proofs alone: Fits.
pub mod Texts
pub mod Additions
pub mod Fits
