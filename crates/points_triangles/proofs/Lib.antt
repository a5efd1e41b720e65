pub mod VertexLaws
pub mod FaceLaws
pub mod PassLaws
