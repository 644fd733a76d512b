pub mod Runs
pub mod ReadRuns
pub mod Spelled
pub mod FromBytes
pub mod Bounds
pub mod WriteText
pub mod Fields
