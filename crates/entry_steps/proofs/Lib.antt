pub mod Entered
pub mod Start
