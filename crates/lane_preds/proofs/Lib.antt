pub mod Places
pub mod Active
pub mod Patterns
pub mod Flags
pub mod Counts
pub mod Compares
mod Examples
