pub mod Meshes
pub mod Passes
pub mod Twice
pub mod Sqrt3
pub mod Calls
