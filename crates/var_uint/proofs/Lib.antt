pub mod Filled
pub mod Groups
pub mod Trace
pub mod Examples
