pub mod Reduce
pub mod FoldNames
pub mod FoldPlaces
pub mod FoldHomes
pub mod FoldJoin
pub mod FoldSteps
pub mod FoldEnds
mod FoldExamples
pub mod StartCounts
pub mod StartHeld
pub mod StartSteps
pub mod StartRuns
pub mod StartEmits
mod StartExamples
pub mod EdgeSizes
