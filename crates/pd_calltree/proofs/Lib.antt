pub mod Contexts
pub mod ReadLemmas
pub mod Records
pub mod Texts
