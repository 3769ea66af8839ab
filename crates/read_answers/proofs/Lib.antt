pub mod Laid
pub mod Told
