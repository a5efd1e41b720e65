pub mod StepLaws
pub mod FaceLaws
pub mod PassLaws
