pub mod Lanes
pub mod BlockSteps
pub mod Banks
pub mod Masks
pub mod Bits
mod Examples
