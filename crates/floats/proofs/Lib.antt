pub mod Zeros
pub mod Units
pub mod Narrowing
pub mod Special
pub mod Bytes
