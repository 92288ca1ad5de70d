pub mod Reductions
pub mod EdgeCode
pub mod Edges
