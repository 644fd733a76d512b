pub mod Bay
pub mod Cell
pub mod Crash
pub mod Disk
pub mod Lawful
pub mod Logs
pub mod Manner
