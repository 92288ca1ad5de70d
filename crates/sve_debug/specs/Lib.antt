pub mod Lines
pub mod Replies
pub mod View
pub mod DebuggerState
pub mod Sessions
pub mod Reaches
