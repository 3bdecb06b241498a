-- Definitions, which public contracts cite: Beginning and Replying.
-- For the proofs alone: Delivering, Growing, Moment, Offering, Finishing, Keeping, Showing, Hitting, Reasoning, Acting and Asking.
pub mod Delivering
pub mod Growing
pub mod Moment
pub mod Offering
pub mod Finishing
pub mod Keeping
pub mod Replying
pub mod Beginning
pub mod Showing
pub mod Hitting
pub mod Reasoning
pub mod Acting
pub mod Asking
