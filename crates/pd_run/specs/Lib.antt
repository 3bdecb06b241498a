-- Definitions, which public contracts cite: Part, Life, Answers and Run.
-- For proofs above: Hands, Record, Laws and Done.
pub mod Part
pub mod Life
pub mod Answers
pub mod Hands
pub mod Record
pub mod Run
pub mod Laws
pub mod Done
