pub mod Pending
pub mod PendingCells
pub mod SettledBytes
pub mod SettledCells
pub mod SettledImages
pub mod SettledMoments
pub mod SettledSteps
pub mod SettledWrites
