pub mod Triangles
pub mod Catmull
pub mod Loop
pub mod Sqrt3
pub mod Tables
