pub mod PlaceLaws
pub mod SumLaws
pub mod CatmullLaws
