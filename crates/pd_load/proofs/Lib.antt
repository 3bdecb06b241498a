pub mod Lists
pub mod Scopes
pub mod Tables
pub mod Spelling
pub mod Unlinked
pub mod Items
pub mod Whole
pub mod Exclusive
