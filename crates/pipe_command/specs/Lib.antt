pub mod Pipes
pub mod View
