pub mod Lent
pub mod Typed
