mod OutcomeLaws
pub mod Context
pub mod Returned
mod TaskLaws
