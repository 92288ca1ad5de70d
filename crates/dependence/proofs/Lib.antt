mod ClassExamples
pub mod ClassLaws
pub mod Bounds
mod Examples
