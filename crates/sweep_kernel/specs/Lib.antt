pub mod Numbers
pub mod KernelText
pub mod Tree
pub mod Accepted
pub mod Ends
pub mod Runs
pub mod Pages
pub mod LengthLine
