pub mod Files
pub mod Requests
pub mod Sink
pub mod Source
pub mod Calls
pub mod Memory
pub mod NamedFile
pub mod Real
