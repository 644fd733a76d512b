pub mod Renames
pub mod MoveLaws
