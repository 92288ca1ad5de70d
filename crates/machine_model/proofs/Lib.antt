pub mod Runs
pub mod WrittenLoads
pub mod WrittenFetch
pub mod Examples
pub mod CodeInMemory
pub mod StateSteps
pub mod Frames
pub mod ScalarFrames
pub mod ScalarStates
pub mod StateLaws
pub mod StatesOfRuns
pub mod MemoryStays
pub mod Quiet
pub mod Suppressed
pub mod ListedWords
mod CaseShapes
mod LaneCases
mod LoadCases
mod StopCases
