pub mod Commits
pub mod Record
pub mod Writes
pub mod Rows
pub mod Running
pub mod States
