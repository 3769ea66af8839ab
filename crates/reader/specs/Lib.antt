pub mod Values
pub mod ByItems
