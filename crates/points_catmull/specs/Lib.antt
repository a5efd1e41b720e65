pub mod Place
pub mod Sums
pub mod Catmull
pub mod Cages
