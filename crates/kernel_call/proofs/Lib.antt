pub mod Frames
pub mod FunctionRuns
pub mod Untouched
pub mod Lengths
pub mod Arrays
pub mod CallExists
pub mod AnywhereRuns
