pub mod Arguments
pub mod Utc
pub mod Small
