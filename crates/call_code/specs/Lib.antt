pub mod Returning
pub mod Frame
pub mod Called
