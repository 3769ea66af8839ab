pub mod Refusals
pub mod Headers
pub mod Scalars
pub mod Bodies
pub mod Told
pub mod Items
pub mod Walk
