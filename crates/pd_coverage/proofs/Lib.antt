mod Examples
pub mod Tables
pub mod LineLists
pub mod Splits
pub mod Pieces
pub mod Told
