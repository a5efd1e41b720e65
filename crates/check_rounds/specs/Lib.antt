pub mod Tour
pub mod Steps
pub mod OnMesh
pub mod OnParts
