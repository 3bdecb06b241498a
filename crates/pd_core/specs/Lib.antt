-- Definitions, which public contracts cite: Layout, Words, Counts, Talks, Views, Good, Kinds, Tokens, Runs and Steps.
-- For the tests: Examples.
pub mod Layout
pub mod Words
pub mod Counts
pub mod Talks
pub mod Views
pub mod Good
pub mod Kinds
pub mod Tokens
pub mod Runs
pub mod Steps
pub mod Examples
