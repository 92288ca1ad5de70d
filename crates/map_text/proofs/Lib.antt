pub mod LineWords
pub mod Places
pub mod Zeros
pub mod Puts
pub mod ByteLaws
pub mod MapsBeside
pub mod MapsAlone
