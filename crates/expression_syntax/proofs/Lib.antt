pub mod Chain
pub mod Sound
pub mod Rooms
pub mod SignRows
pub mod Stuck
pub mod Within
pub mod Shorter
