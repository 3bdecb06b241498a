mod Gets
mod Puts
mod Lookups
pub mod Kept
pub mod Walked
pub mod Read
pub mod Values
pub mod Shown
