pub mod StatementLists
pub mod Marks
pub mod TokenList
pub mod Well
pub mod Lexed
mod Examples
mod WrapExamples
pub mod OneTerm
pub mod OneTree
pub mod Faultless
pub mod NoFault
pub mod Scopes
pub mod Names
pub mod RightKinds
pub mod Spelled
pub mod Calls
pub mod Walks
pub mod Measures
