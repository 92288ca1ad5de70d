mod MorePages
mod MoreValues
pub mod MoreRuns
pub mod OtherBytes
