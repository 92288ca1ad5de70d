pub mod Drafted
pub mod Words
