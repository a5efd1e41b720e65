pub mod Kinds
pub mod Amounts
pub mod Ahead
