pub mod KindLaws
pub mod TallyLaws
pub mod AheadLaws
