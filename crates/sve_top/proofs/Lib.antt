pub mod Lines
pub mod Leaves
pub mod Requested
pub mod Told
pub mod SomeExpectedLaws
pub mod OneExpectedLaws
pub mod Completions
