pub mod Classes
pub mod Apart
pub mod Bound
