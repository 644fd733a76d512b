pub mod Points
pub mod Outside
pub mod Bounds
pub mod Examples
pub mod Faults
pub mod PointExample
pub mod Promises
pub mod LongNames
