pub mod Place
pub mod Rule
pub mod Once
pub mod OnMesh
