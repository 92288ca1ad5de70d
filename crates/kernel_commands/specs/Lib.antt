pub mod Kernels
pub mod Commands
