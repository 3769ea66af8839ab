pub mod ReadBack
pub mod Unmarked
