pub mod WalkLaws
pub mod RoundLaws
pub mod RuleLaws
pub mod TourLaws
pub mod LeastLaws
pub mod AskLaws
pub mod PartLaws
