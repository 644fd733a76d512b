pub mod Looks
pub mod Kinds
pub mod Parts
pub mod BlockSlots
pub mod Names
pub mod Searches
pub mod Walks
pub mod Listings
