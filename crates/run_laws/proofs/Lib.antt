mod CompiledListings
mod CompiledRuns
mod EvaluatedRuns
