pub mod Months
pub mod Counted
pub mod Minutes
