pub mod SweepText
pub mod Lines
