pub mod Agreeing
pub mod Entries
