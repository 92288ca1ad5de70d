pub mod Halts
pub mod PassCode
pub mod Chunks
pub mod Passes
