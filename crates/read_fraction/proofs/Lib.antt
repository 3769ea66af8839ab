pub mod Powers
pub mod Lengths
pub mod Zeros
pub mod Division
