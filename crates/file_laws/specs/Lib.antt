pub mod Bytes
pub mod Calls
pub mod Cube
pub mod Trip
