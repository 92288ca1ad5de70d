pub mod LeastFault
pub mod ListWalks
pub mod ChoiceWalks
pub mod KernelWalks
pub mod Bounds
pub mod FirstFault
mod TypeLists
mod KindWalks
mod BlockWalks
mod PartWalks
mod OperandWalks
