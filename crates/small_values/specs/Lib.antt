pub mod Order
pub mod Set
pub mod Listing
