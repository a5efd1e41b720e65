pub mod Adjust
pub mod Rounds
