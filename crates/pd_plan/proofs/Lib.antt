pub mod Conditions
pub mod Crossing
