pub mod Anywhere
pub mod Untouched
