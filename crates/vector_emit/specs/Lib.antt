pub mod VectorCode
pub mod VectorRuns
pub mod Parts
