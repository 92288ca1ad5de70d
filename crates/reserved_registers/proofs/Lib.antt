mod Words
mod Steps
pub mod Entries
pub mod Drafts
pub mod FreeRegisters
mod ScalarWords
mod Values
mod Statements
mod Iterations
mod Guards
mod VectorWords
mod Chunks
mod Passes
