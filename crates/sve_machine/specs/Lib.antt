pub mod Listing
pub mod DecodedWords
pub mod VectorStates
pub mod View
pub mod Rows
pub mod Kinds
pub mod Pasts
