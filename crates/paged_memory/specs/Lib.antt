pub mod Layout
pub mod Numbers
pub mod Runs
pub mod Loans
pub mod Past
pub mod Epochs
pub mod SpanWritten
