pub mod Making
pub mod Renumbered
