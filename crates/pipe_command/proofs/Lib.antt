pub mod Causes
pub mod LoadedLines
pub mod LineRuns
pub mod Passed
pub mod Requested
