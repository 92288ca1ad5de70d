pub mod Draws
pub mod PageLists
pub mod PagesMemory
pub mod Digits
pub mod Words
pub mod KernelRead
pub mod RulesMet
pub mod Accepted
pub mod Arrays
pub mod IterationEnds
pub mod Iteration
pub mod Ends
pub mod RunsEnd
mod Examples
