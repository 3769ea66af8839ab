pub mod Prefix
pub mod Sids
