pub mod Valid
pub mod UtcFields
pub mod Fields
pub mod Runs
pub mod SmallFields
pub mod Body
pub mod Values
