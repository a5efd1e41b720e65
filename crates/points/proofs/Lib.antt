pub mod Mirror
pub mod Through
pub mod PassThrough
