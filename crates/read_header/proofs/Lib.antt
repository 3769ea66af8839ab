pub mod Headers
pub mod Markers
pub mod Bounds
pub mod Usual
