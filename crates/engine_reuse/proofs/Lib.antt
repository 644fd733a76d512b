pub mod Bits
pub mod Ranges
pub mod Members
pub mod Releases
pub mod Counts
pub mod Sound
pub mod Steps
pub mod Accounts
