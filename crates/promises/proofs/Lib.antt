pub mod Promises
pub mod ReservedKept
pub mod ScalarFiles
