pub mod Statements
pub mod Headers
pub mod Nesting
pub mod Refusals
