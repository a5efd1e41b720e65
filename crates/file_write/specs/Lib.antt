pub mod Items
pub mod Puts
pub mod Writes
