pub mod Over
pub mod Spent
