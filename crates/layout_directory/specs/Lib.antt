pub mod Slots
pub mod Directory
