pub mod CutGood
pub mod Cut
pub mod Face
pub mod Partway
pub mod Pass
