pub mod Found
pub mod Replies
pub mod Spots
pub mod Facts
pub mod Entries
pub mod InUse
