pub mod Kept
pub mod Breaks
pub mod Leaves
