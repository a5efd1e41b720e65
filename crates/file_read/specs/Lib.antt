pub mod Cells
pub mod Format
pub mod Held
