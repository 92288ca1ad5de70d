pub mod Places
pub mod Tables
pub mod Ordering
pub mod Laid
pub mod Memories
pub mod Mapped
