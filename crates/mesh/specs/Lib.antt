pub mod Words
pub mod Rounds
pub mod Given
