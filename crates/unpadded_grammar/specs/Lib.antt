pub mod Pads
pub mod Exact
