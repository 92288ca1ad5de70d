pub mod Loads
pub mod Readings
pub mod StopLists
pub mod Writings
pub mod Gathers
pub mod Parts
