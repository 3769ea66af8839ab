pub mod Narrowed
pub mod Zero
pub mod Puts
