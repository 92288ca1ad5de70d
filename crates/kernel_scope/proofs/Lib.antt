pub mod Views
pub mod Growth
