pub mod Prints
pub mod Statuses
pub mod Reading
pub mod Asks
pub mod Loading
pub mod Outcomes
pub mod Exits
pub mod Held
