pub mod Chosen
pub mod FileRims
pub mod Lowest
pub mod RimLaws
