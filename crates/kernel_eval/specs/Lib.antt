pub mod Slots
pub mod SlotRuns
