pub mod Parts
pub mod A64Text
pub mod SveText
pub mod Text
