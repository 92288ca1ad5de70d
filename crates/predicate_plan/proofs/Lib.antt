pub mod Meets
mod Examples
pub mod Owners
