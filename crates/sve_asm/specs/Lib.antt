pub mod WordOf
pub mod Lines
pub mod View
