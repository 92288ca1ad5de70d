pub mod Numbers
pub mod Line
pub mod View
pub mod Given
pub mod Taken
