pub mod Recorded
pub mod Witness
