pub mod Statements
pub mod Loosening
pub mod LoopNumbers
pub mod Loop
pub mod Kernel
pub mod KernelFits
pub mod Runs
