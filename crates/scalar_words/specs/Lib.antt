pub mod Layout
pub mod View
pub mod Operands
pub mod Safe
pub mod Words
pub mod KernelRegisters
pub mod Iterations
pub mod Sites
