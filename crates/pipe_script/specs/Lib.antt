pub mod Script
pub mod View
