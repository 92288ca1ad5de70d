pub mod Operations
pub mod Shifted
pub mod Blocks
mod Chosen
pub mod Banks
pub mod Filled
pub mod Joins
pub mod Halves
pub mod Reduced
mod Examples
