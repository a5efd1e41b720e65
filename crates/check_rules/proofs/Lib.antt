pub mod HalfLaws
pub mod Searches
