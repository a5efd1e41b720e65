pub mod Looks
pub mod Stores
pub mod Rooms
pub mod Passing
pub mod Lent
