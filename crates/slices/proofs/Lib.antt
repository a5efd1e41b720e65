pub mod CopyLaws
pub mod MarkLaws
