pub mod ValueRegisters
pub mod ItemWords
pub mod Extents
pub mod Leaving
pub mod Code
pub mod Fits
pub mod Covers
pub mod HeldNumbers
