pub mod Numbers
pub mod Registers
pub mod Widths
pub mod Predicates
pub mod Folds
pub mod AtWidths
pub mod Shifts
pub mod SpanLaws
pub mod LaneSteps
mod Examples
pub mod Writes
pub mod Stores
pub mod AfterStores
pub mod Ascending
pub mod Merges
pub mod EarlyLoads
pub mod Errors
