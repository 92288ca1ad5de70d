pub mod Fields
pub mod AddressForms
pub mod Examples
mod Replacing
mod Nothing
mod FlagCases
mod AfterCompare
