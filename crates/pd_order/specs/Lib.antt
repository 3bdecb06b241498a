-- Definitions, which public contracts cite: Order.
-- For the proofs alone: Standing.
pub mod Order
pub mod Standing
