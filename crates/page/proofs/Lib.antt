pub mod Fronts
pub mod Inputs
pub mod NoForm
pub mod Numbers
