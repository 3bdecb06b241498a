-- Definitions, which public contracts cite.
pub mod Operators
pub mod Answers
