pub mod CompiledListings
pub mod CompiledRuns
pub mod EvaluatedRuns
