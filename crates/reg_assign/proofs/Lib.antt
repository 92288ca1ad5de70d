pub mod Overlaps
mod Ends
mod Examples
mod Walk
