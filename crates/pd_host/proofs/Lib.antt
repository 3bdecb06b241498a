pub mod AttachingLaws
pub mod RunLaws
pub mod TaskLaws
