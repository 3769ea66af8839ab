pub mod Invariant
pub mod Depth
pub mod ReadBack
pub mod Unmarked
pub mod Instances
