pub mod ListParts
mod ActiveRanges
mod Sizes
pub mod EarlySteps
mod Examples
pub mod FirstTrue
pub mod KeepLaws
pub mod FfrCleared
pub mod LoadLaws
pub mod ReadLaws
pub mod SpanWrites
pub mod StopLaws
pub mod StoreLaws
pub mod GatherLaws
pub mod WriteLaws
pub mod Places
