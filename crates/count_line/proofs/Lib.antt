pub mod Examples
pub mod LineLaws
pub mod MarkLaws
pub mod RoomLaws
pub mod SayLaws
