pub mod Bodies
pub mod Codes
