pub mod OneVerdict
pub mod Causes
pub mod SomeVerdict
