pub mod Types
pub mod Refused
pub mod Lobs
