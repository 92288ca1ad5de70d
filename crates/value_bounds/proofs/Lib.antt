mod Examples
pub mod SaturatedBounds
pub mod Corners
pub mod InBounds
