pub mod Parts
pub mod Short
pub mod Causes
