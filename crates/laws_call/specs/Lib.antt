pub mod Laws
pub mod Demand
pub mod Exactly
pub mod Made
