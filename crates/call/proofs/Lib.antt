pub mod GoLaws
pub mod CallLaws
