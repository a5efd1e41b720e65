pub mod Face
pub mod Partway
pub mod Tally
pub mod Pass
