pub mod Intervals
pub mod Registers
pub mod Taking
