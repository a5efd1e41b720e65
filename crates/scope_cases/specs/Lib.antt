pub mod Pieces
pub mod Schemes
pub mod Edits
pub mod Checks
