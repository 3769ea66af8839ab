pub mod Value
pub mod Chain
pub mod Fields
pub mod Text
pub mod Calendar
pub mod Scalars
pub mod Grammar
pub mod Ieee
