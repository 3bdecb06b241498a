-- Definitions, which public contracts cite:
-- Book, Tied, Sitting, Took, Steps, Loading, Costs, Held, Merged, Left and Closed.
-- For the proofs alone: First.
pub mod Book
pub mod Tied
pub mod Sitting
pub mod Took
pub mod Steps
pub mod Loading
pub mod Costs
pub mod First
pub mod Held
pub mod Merged
pub mod Left
pub mod Closed
pub mod Matching
