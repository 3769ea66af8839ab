pub mod Gathered
pub mod Tested
pub mod Coefficients
pub mod Whole
