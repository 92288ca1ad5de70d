pub mod Exits
pub mod Expectations
pub mod Verdicts
pub mod Evaluations
pub mod Requested
