pub mod PartnerLaws
pub mod WordLaws
pub mod SliceLaws
pub mod RoundLaws
