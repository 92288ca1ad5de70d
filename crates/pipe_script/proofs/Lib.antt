pub mod Entries
pub mod Arguments
pub mod Names
