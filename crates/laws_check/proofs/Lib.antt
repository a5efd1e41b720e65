pub mod Tells
pub mod Rounds
pub mod Tests
pub mod Theorems
