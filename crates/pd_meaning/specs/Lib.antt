-- Definitions, which public contracts cite: Meaning, Machine, Laws, Steps and Telling.
-- For the proofs alone: Seen, Weight and Leads.
pub mod Meaning
pub mod Machine
pub mod Seen
pub mod Laws
pub mod Steps
pub mod Telling
pub mod Weight
pub mod Leads
