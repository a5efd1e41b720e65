pub mod Tells
pub mod Judged
pub mod Names
