-- For the tests: no other contract cites it.
pub mod Examples
pub mod Scripts
