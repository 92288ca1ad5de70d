pub mod Programs
pub mod Listings
pub mod Writes
pub mod Sessions
pub mod Assemblies
pub mod ReadBack
pub mod AssembledWords
pub mod Requested
