pub mod FileStart
pub mod DraftedFiles
pub mod ScalarFaithful
pub mod ArrayStreams
pub mod ApartBoth
pub mod AtLoop
pub mod AtVector
pub mod MapStays
pub mod Paces
pub mod NearFaults
pub mod NearAccesses
pub mod VectorPlaced
pub mod VectorJoin
pub mod VectorFiles
pub mod VectorEmitted
mod SlowDrafts
mod CountedWords
mod WordExamples
mod ReservedWords
pub mod Tried
