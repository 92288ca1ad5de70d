pub mod LoopSizes
pub mod HeldCounts
pub mod CloseBounds
mod CloseExamples
