pub mod Lines
pub mod Mapping
pub mod View
pub mod Worded
