pub mod VarFields
pub mod Digits
pub mod Bodies
