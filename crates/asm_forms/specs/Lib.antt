pub mod Blanks
pub mod Rules
pub mod View
pub mod Reading
