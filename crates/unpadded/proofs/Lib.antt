pub mod Steps
pub mod Marks
