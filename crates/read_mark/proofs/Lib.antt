pub mod Shifted
pub mod Marked
pub mod Read
