pub mod Synced
pub mod Awaited
