pub mod Asked
pub mod Commands
pub mod Does
pub mod Complete
pub mod Requested
pub mod Leaves
