pub mod LineStarts
pub mod Splitting
pub mod Leading
pub mod Examples
pub mod Longest
