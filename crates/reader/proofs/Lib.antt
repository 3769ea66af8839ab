pub mod Walks
pub mod Steps
