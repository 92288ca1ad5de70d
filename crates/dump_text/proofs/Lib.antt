pub mod Digits
pub mod RangePieces
