pub mod Bounds
pub mod Parts
pub mod Sids
pub mod Fuel
pub mod Ints
pub mod Stands
