pub mod Cores
pub mod Accesses
pub mod Forms
pub mod Prepared
