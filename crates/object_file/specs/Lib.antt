pub mod Object
pub mod Written
