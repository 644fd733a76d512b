pub mod Spelled
pub mod Written
pub mod Entries
pub mod Places
pub mod Joined
pub mod Fields
