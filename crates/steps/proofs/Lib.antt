pub mod Containers
pub mod Ends
pub mod Exits
pub mod Members
pub mod Run
pub mod Scalars
pub mod Started
