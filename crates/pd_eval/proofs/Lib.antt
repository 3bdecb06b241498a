pub mod Entered
pub mod Came
pub mod Started
pub mod Standing
pub mod Ordering
pub mod Begun
