pub mod Directories
pub mod Reading
pub mod Changing
