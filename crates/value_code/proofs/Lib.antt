pub mod Loads
pub mod CodedSizes
pub mod Literals
pub mod WholeNames
pub mod Together
pub mod Places
pub mod NumberCounts
pub mod NearOffsets
pub mod HoldTerms
pub mod Comparisons
pub mod Loose
pub mod Numbers
pub mod Operators
pub mod Fused
pub mod Staying
pub mod Ranges
pub mod Jumps
pub mod CodeBack
pub mod ValueRuns
pub mod CoversNone
pub mod FitsOf
pub mod ValueCounts
pub mod ValuesPlaced
pub mod TermWalks
mod ByteCounts
mod HeldKeys
mod CoversTerms
pub mod IndexCode
mod Examples
pub mod TermCode
