pub mod Vertices
pub mod Faces
pub mod Passes
