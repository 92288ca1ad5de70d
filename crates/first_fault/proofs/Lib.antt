pub mod PrefixBits
pub mod Stretches
mod PlainCode
pub mod PrefixSteps
mod PureSteps
mod BreakSteps
mod ReadLanes
mod SingleReads
pub mod EarlyReads
mod SuppressedLanes
mod OutcomeLists
pub mod RegionRuns
pub mod RegionItems
pub mod RestHolds
pub mod Counts
pub mod BreakRegions
pub mod WayIterations
pub mod RegionFits
pub mod TopBreaks
pub mod LiveTruths
pub mod LoopFits
pub mod Spelled
pub mod Sizes
mod MostWords
pub mod Writables
mod RegionPuts
mod Examples
