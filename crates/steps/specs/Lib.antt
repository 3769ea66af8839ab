pub mod Counted
pub mod Heads
pub mod Kinds
pub mod Start
