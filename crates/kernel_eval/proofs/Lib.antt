pub mod Branches
pub mod HeldSlots
pub mod ResolvedValues
pub mod ResolvedStatements
pub mod ResolvedRuns
pub mod LimitedRuns
pub mod IterationWalks
mod StepWalks
mod Words
mod ElementValues
