pub mod Loaded
pub mod Loadable
pub mod Mapped
