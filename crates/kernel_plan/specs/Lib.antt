pub mod Trees
pub mod Resolve
pub mod Plans
