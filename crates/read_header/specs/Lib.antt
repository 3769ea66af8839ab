pub mod Lengths
pub mod Usual
