pub mod Stepping
pub mod Stopping
pub mod Following
pub mod Scripts
pub mod Crossing
