pub mod Appended
pub mod ReadObjects
