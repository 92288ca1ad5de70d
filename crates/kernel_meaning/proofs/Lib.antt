mod RunExamples
mod WalkExamples
mod CornerExamples
pub mod Examples
pub mod Residues
pub mod NameLists
pub mod Started
pub mod RunsFrom
pub mod TypeRanges
pub mod ExtendedForm
pub mod Extends
pub mod NameRanges
pub mod ValueRanges
pub mod StartRanges
pub mod CourseRanges
pub mod Addresses
pub mod Intervals
