mod Words
mod PutTexts
pub mod Runs
mod Kept
mod Told
mod Sessions
mod Answered
mod Named
mod ByteAnswers
