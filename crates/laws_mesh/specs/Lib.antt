pub mod Reach
pub mod Mesh
pub mod Rules
pub mod Count
pub mod Of
pub mod Sides
