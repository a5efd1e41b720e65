pub mod DecimalLaws
pub mod PieceLaws
pub mod PutLaws
