pub mod Answer
pub mod Reads
pub mod Requests
pub mod Works
pub mod Outputs
