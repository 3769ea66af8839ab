pub mod Tests
pub mod Asked
pub mod Pads
pub mod Depth
pub mod Whole
pub mod Exact
pub mod Examples
