pub mod Readings
pub mod Candidates
pub mod Wholes
pub mod Puts
pub mod Finds
pub mod Covered
pub mod Epochs
pub mod InRing
