pub mod Lent
pub mod EntryCall
