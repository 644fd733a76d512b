pub mod Layout
pub mod Run
pub mod Spelling
pub mod Flaws
pub mod Formatted
pub mod Ring
pub mod Writing
