pub mod Begun
pub mod Bytes
pub mod Ascii
