pub mod Faithful
pub mod Function
pub mod OneExit
pub mod Refusals
pub mod Reserved
pub mod Saved
