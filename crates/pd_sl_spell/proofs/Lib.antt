pub mod Completes
pub mod Forward
pub mod Backward
pub mod Completion
pub mod Answer
pub mod Only
pub mod Examples
