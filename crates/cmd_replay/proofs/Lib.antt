pub mod Comparisons
pub mod Steps
pub mod Lists
pub mod Newests
pub mod Walks
pub mod telling
pub mod lawful
mod SameTrees
mod CrashImages
pub mod Mounting
