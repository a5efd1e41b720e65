pub mod Cutting
pub mod Corner
pub mod Triangular
pub mod TrimmedRecord
pub mod Triangulate
