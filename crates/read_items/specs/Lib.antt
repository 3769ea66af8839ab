pub mod Ints
pub mod Sids
pub mod Stands
