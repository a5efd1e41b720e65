pub mod Count
pub mod Fields
