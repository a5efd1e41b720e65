pub mod LookLaws
pub mod RoomLaws
pub mod PassLaws
pub mod RunLaws
pub mod StoreLaws
