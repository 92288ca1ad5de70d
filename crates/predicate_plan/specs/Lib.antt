pub mod Masks
pub mod View
pub mod Owners
