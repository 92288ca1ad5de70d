pub mod Initial
pub mod ArrayWalk
pub mod WalkParts
mod TermWalks
mod LooseSteps
pub mod FitsKernel
pub mod SetupRuns
pub mod LooseBlocks
mod LooseHomes
pub mod HoldBlocks
pub mod Counts
pub mod Placed
pub mod Emission
pub mod StatementWalks
mod StoredRuns
pub mod StmtRuns
mod LooseNames
mod EnterRuns
mod SettleRuns
pub mod LoopRuns
pub mod BeginRuns
pub mod KernelRuns
pub mod FitsBlocks
mod FitsExamples
mod Examples
mod FusedExamples
