pub mod JudgeLaws
pub mod EntryLaws
pub mod Theorems
