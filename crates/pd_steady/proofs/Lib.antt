pub mod Given
pub mod Spared
pub mod Steady
