pub mod Years
pub mod Examples
