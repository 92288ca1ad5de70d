pub mod OperatorCode
pub mod TermItems
pub mod TermCalls
pub mod TermKinds
pub mod ItemCode
pub mod PartKinds
pub mod TermEmits
