pub mod Appends
pub mod Breaks
pub mod Declared
pub mod StatementAppends
pub mod WholeLoops
