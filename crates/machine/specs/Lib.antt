pub mod Call
pub mod Machine
pub mod Numbers
pub mod Model
pub mod Demands
pub mod Counts
pub mod Moves
