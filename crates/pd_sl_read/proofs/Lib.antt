pub mod Follows
pub mod Stacks
pub mod Sizes
pub mod Counts
pub mod Digits
pub mod Reading
pub mod Turns
