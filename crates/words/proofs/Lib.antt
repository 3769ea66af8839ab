pub mod Digits
pub mod HexDigits
pub mod InUse
pub mod Negated
pub mod Repeated
pub mod Words
