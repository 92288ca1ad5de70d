pub mod Counts
mod Reached
