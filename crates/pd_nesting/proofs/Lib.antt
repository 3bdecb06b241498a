pub mod Covering
pub mod Covered
pub mod Nested
pub mod Rooted
