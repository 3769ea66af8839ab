pub mod Puts
pub mod Ints
