pub mod Bytes
mod Examples
pub mod EpochRows
pub mod HeadPlaces
pub mod LoanLaws
pub mod Mapped
pub mod Merging
pub mod Parts
pub mod Places
pub mod PageLaws
mod FirstEpochs
pub mod Puts
pub mod RunLaws
pub mod UndoLaws
pub mod Marks
pub mod OnePage
