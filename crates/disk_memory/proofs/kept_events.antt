pub mod Entries
pub mod LookedUp
