pub mod Lists
pub mod Calls
pub mod Turns
pub mod Runs
pub mod Frames
pub mod Pairing
