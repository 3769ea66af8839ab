pub mod Order
pub mod Numbers
pub mod Yields
pub mod Steps
pub mod Filled
pub mod Listed
pub mod Examples
