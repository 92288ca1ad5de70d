pub mod Listing
pub mod Commands
pub mod Ready
pub mod ReadBack
