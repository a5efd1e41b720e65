pub mod CopyLaws
pub mod LineLaws
pub mod WordLaws
