pub mod FewItems
pub mod Near
pub mod Numbers
pub mod NameUses
pub mod IntervalLaws
pub mod IntervalRegisters
pub mod LoopLists
pub mod PlaceLaws
pub mod ItemTypes
pub mod ItemWidths
pub mod StreamLaws
pub mod ReachLaws
pub mod ArrayNames
pub mod Kernels
mod Examples
pub mod Places
