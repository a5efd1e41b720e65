pub mod ContentsLaws
pub mod FillLaws
pub mod FiniteLaws
pub mod ReadLaws
