pub mod StepLists
pub mod ListWalks
pub mod SameNames
mod NodeWalks
mod StatementWalks
mod Places
